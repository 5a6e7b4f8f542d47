use Rattle.brackets.proofs.Spanned.{spanned_bounded, spanned_whole}
use Rattle.brackets.proofs.spanning.Spanning.of.Goals as goal

pub returns-clause-bounded : goal.returns-clause-bounded
returns-clause-bounded c =
    spanned_bounded c.args.graph.now (record { links = c.in_ok-links.links; tree = c.in_ok-tree.tree }) c.in_ok-links.ensures c.in_ok-tree.ensures.spans

pub returns-clause-whole : goal.returns-clause-whole
returns-clause-whole c = λ sound.
    spanned_whole c.args.graph.now (record { links = c.in_ok-links.links; tree = c.in_ok-tree.tree }) c.in_ok-links.ensures c.in_ok-tree.ensures.spans
    (c.in_ok-tree.ensures.whole sound) sound
