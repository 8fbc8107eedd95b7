pub mod OnlyReadLaws
pub mod SaidLaws
pub mod SoFarLaws
pub mod TakenLaws
