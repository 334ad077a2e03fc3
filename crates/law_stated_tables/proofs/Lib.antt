mod Tests
mod Named
mod Turns
mod Rates
mod Fit
mod Numbers
mod Others
mod Places
