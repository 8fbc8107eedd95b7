mod AroundLaws
pub mod ArrayValues
mod AssignmentLaws
mod AutomatonLaws
pub mod BareLaws
mod BasicLaws
pub mod Blames
pub mod Bodies
pub mod BodyLaws
mod BodyNumbers
mod CallFaults
mod CallLaws
mod CalledLaws
mod ChainLaws
mod ClauseLaws
pub mod ConstantExpressions
pub mod ConstantRules
mod DeclarationFaults
mod ExpressionLaws
mod ExpressionTrees
pub mod ExpressionValues
pub mod Expressions
pub mod Facts
mod FillingLaws
pub mod FirstHeads
mod FunctionHeads
mod FunctionLaws
mod FunctionNames
mod GivenLaws
mod GroupBodies
pub mod GroupLaws
pub mod Grows
mod HeadDefaults
pub mod HeadLaws
mod HeadNames
pub mod HeadsLaw
mod KnownHeads
pub mod LimitLaws
pub mod ListPartLaws
mod LiteralBytes
mod NameLaws
mod NativeNames
pub mod Nodes
mod Numbers
mod OperatorGroups
mod OperatorHeads
mod OperatorLaws
pub mod PathLaws
mod PlainPaths
mod ProgramFaults
mod PublicLaws
pub mod Rises
mod RouteLaws
mod RuleFaults
pub mod RuleValues
pub mod SeenLaws
pub mod SiteLaws
mod SizeLaws
mod Sizes
pub mod SlotLaws
mod SourceLaws
mod StatementFaults
pub mod StatementForms
pub mod StatementLaws
pub mod StatementParts
mod TagNames
mod TestLaws
mod TokenLaws
mod TreeCounts
mod TreeLaws
pub mod TreeRises
pub mod Up
mod ValidityLaws
mod ValueFaults
pub mod Values
pub mod Variables
