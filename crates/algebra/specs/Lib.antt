pub mod Ring
pub mod Expr
pub mod Lists
pub mod Fold
pub mod Prime
pub mod Modulo
pub mod Field
