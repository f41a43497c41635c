mod GrowthLaws
mod SymbolLaws
mod BlockLaws
mod PredeclaredLaws
mod LineLaws
