-- The theorems: HeapPageHeap, PageHeapPage, PageBound, PageLength, PageForms; the others are their lemmas.
pub mod PageReading
pub mod PageWriting
pub mod HeapPageHeap
pub mod KnownPages
pub mod PageHeapPage
pub mod PageBound
pub mod PageLength
pub mod PageForms
pub mod ProvedTable
pub mod TestsPass
pub mod CollectedTwice
pub mod RetiredStays
pub mod Shelf
pub mod RootsCollected
pub mod TableText
