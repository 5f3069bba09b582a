mod Drawings
mod Soundness
mod Volumes
mod Extruders
