mod Parts
mod Naming
mod Headers
mod HeldData
mod Keeping
