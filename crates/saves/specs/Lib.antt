-- What the two calls on two saves answer, and what is right of it; `inner` is what only inner contracts cite.
pub mod Saves
pub mod Right
pub mod Once
pub mod Inner
