mod Choosing
mod Order
mod Records
