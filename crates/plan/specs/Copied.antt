-- The graph that a copy of it stands for.
use Rattle.std.specs.Prelude.{map, vec_items}
use Rattle.model.specs.Meaning.{Graph, pair_of}
use Rattle.plan.specs.declared.graphs.Graph.{Graph as Copy}

abbrev pub graph_of : Copy → Graph
graph_of g = record { steps = g.steps; links = map pair_of (vec_items g.links); first = g.first.0; last = g.last.0 }
