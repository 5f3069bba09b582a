-- How large an input may be, and how large a result can get.
use Rattle.std.specs.Prelude.{ℕ}

-- the layers of one job
abbrev pub max_layers : ℕ
max_layers = 40000

-- the facets of one mesh
abbrev pub max_facets : ℕ
max_facets = 1000000

-- the bytes of one input file: 256 MiB
abbrev pub max_file_bytes : ℕ
max_file_bytes = 268435456

-- the edges of one cut, once they are cut
abbrev pub max_edges : ℕ
max_edges = 100000

-- the points of a region that clipping gives: three for two edges at most
abbrev pub max_region_points : ℕ
max_region_points = 150000

-- the meshes of one job
abbrev pub max_meshes : ℕ
max_meshes = 16

-- the extruders of one machine
abbrev pub max_extruders : ℕ
max_extruders = 8

-- the workers that plan layers at once
abbrev pub max_workers : ℕ
max_workers = 64
