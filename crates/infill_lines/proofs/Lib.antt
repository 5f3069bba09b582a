mod Pairing
mod Counting
mod Filing
mod Parts
mod Slants
mod Crossed
mod Insides
mod Sorting
