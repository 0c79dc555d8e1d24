-- The great theorems, one file each: what is claimed.
pub mod PageCalls
pub mod HeapPageHeap
pub mod KnownPages
pub mod PageHeapPage
pub mod PageBound
pub mod PageLength
pub mod EarlierPage
pub mod PageForms
pub mod TableLayouts
pub mod ProvedTable
pub mod TestsPass
pub mod CollectedTwice
pub mod RetiredStays
pub mod Shelf
pub mod RootsCollected
pub mod TableText
