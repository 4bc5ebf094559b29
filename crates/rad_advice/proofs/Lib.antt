mod Distances
mod EachDoubt
mod Items
mod LastLines
mod Lists
mod Names
mod Told
