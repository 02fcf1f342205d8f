mod HexLemmas
mod LoadLemmas
