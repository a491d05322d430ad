-- What the contracts of inner calls cite.
pub mod FieldList
pub mod Pieces
