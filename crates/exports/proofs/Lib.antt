-- What the proofs of several functions use.
mod Sums
mod CellReads
mod Opened
mod RowReads
