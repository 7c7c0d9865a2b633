pub mod HeldWords
