pub mod Befores
