pub mod Items
pub mod Renumbered
pub mod Rows
pub mod RenumberedGrammars
pub mod Shapes
pub mod RenumberedLexicons
