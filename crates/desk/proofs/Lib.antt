mod Agreeing
mod Plain
mod Adopting
mod Carried
mod Least
mod Lawful
