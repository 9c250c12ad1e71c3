-- What crosses the boundary: codes, lists of vectors, bytes.
pub mod Boundary
pub mod Finished
