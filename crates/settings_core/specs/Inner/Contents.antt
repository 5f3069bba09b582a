-- Contents as they are read from a document: what definitions see in them.
use Rattle.std.specs.Prelude.{ℕ, ◌≤◌, List, length, Option, Some, None, option_map, IfSome}
use Rattle.serde_json.specs.Data.{array, Items, Members, put}
use Rattle.serde_json.specs.View.{items_view, members_view}
use Rattle.settings_core.specs.declared.contents.Contents.{Contents}
use Rattle.settings_core.specs.declared.contents.Owner.{Owner}
use Rattle.settings_core.specs.declared.contents.Owner.TheVariants.{Extruders, Meshes}
use Rattle.settings_core.specs.declared.pairs.Scope.{Scope}
use Rattle.settings_core.specs.declared.pairs.Scope.TheVariants.{Extruder, Mesh}
use Rattle.settings_core.specs.File.{FileContents}
use Rattle.settings_core.specs.Migrate.{second_items}

-- what is held, as data
abbrev pub contents_view : Contents → FileContents
contents_view c = record {
  global = members_view c.global.now.entries;
  extruders = option_map (λ vs. items_view vs.now) c.extruders;
  meshes = option_map (λ vs. items_view vs.now) c.meshes;
}

-- at most eight extruders and sixteen meshes
pub record AreFew (c : Contents) : Type 0 where
  pub extruders : IfSome c.extruders (λ vs. length vs.now ≤ 8)
  pub meshes : IfSome c.meshes (λ vs. length vs.now ≤ 16)

-- the scope of object number n
abbrev pub scope_of : Owner → ℕ → Scope
scope_of Extruders = Extruder
scope_of Meshes = Mesh

-- members with these objects at a key, where they are there
abbrev pub put_listed : List ℕ → Option Items → Members → Members
put_listed key None ms = ms
put_listed key (Some ds) ms = put key (array (second_items ds)) ms
