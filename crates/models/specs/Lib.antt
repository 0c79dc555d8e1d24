-- What a reader must believe of an object and of a heap; `inner` is what only inner contracts cite.
pub mod Objects
pub mod HeapModel
pub mod Inner
