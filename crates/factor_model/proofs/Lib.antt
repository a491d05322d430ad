pub mod LineLaws
pub mod EtaLaws
pub mod Orders
pub mod UpperShape
pub mod UpperLaws
pub mod EditLaws
pub mod SparseLaws
pub mod MultiplierLaws
pub mod UpdateLaws
pub mod FactorLaws
pub mod PivotLaws
pub mod FactorReaches
pub mod FactorStands
pub mod FactoredLaws
pub mod FactoredSame
pub mod DiagonalLaws
pub mod UpdatedLaws
mod WorkedCases
