use Rattle.naming.proofs.Classes.{tree_links_bracketed}
use Rattle.naming.proofs.tree_links_have_brackets.Goals as goal

pub returns : goal.returns
returns c = tree_links_bracketed
