mod OneSector
mod Searches
mod Syncs
mod Walks
