pub mod ChangeOrder
pub mod OrderMoves
pub mod FamilyMoves
pub mod Laws
