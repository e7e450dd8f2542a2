mod Pieces
mod Types
