mod Accounts
mod FileEnds
mod Parcels
mod Passing
mod RunLines
