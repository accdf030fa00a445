-- Which formulas of forward numbers may be reordered. `Laws` has the laws, at every order; `Floats` those of the floats
-- underneath; `Methods` the same of the code's own operators.
-- `Regrouped` shows that sums grouped otherwise have other bits, `OnATape` which of the laws hold of recorded values,
-- and `Examples` has the lines of docs/LAWS.md; `Shown` says how these are shown.
pub mod Floats
pub mod Laws
pub mod Methods
pub mod Shown
pub mod Regrouped
pub mod OnATape
pub mod Examples
