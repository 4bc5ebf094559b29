pub mod HexLemmas
pub mod PieceLemmas
