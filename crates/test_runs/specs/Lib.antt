pub mod HeldFiles
