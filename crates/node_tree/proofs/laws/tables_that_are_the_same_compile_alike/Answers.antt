use Rattle.node_tree.proofs.SameLemmas.{both_ways, index-same, kept-same, refused-same}
use Rattle.node_tree.specs.Names.{IsIndexOf}
use Rattle.node_tree.specs.Refusals.{KeepsRules, IsRefusal}
use Rattle.node_tree.proofs.laws.tables_that_are_the_same_compile_alike.Goals as goal

pub returns-clause-index : goal.returns-clause-index
returns-clause-index c =
    λ tables others root index. both_ways (λ ts. IsIndexOf ts root index)
    (λ ts us same. index-same ts us same root index) tables others

pub returns-clause-kept : goal.returns-clause-kept
returns-clause-kept c =
    λ tables others root. both_ways (λ ts. KeepsRules ts root) (λ ts us same. kept-same ts us same root) tables others

pub returns-clause-refused : goal.returns-clause-refused
returns-clause-refused c =
    λ tables others root refusal. both_ways (λ ts. IsRefusal ts root refusal)
    (λ ts us same. refused-same ts us same root refusal) tables others
