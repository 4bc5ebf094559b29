pub mod Blocks
mod Cells
pub mod Ends
mod Fronts
mod JoinedFronts
mod Lending
mod NodeSteps
mod Parted
mod Places
mod Ready
mod Regions
mod Rooms
mod RowPlaces
mod Sending
