-- What a gateway table means. A file of its own: that of the struct, with its ghost fields, cannot import it.
use Rattle.std.proofs.lemmas.List.{length-map}
use Rattle.std.specs.Prelude.{vec_items}
use Rattle.model.specs.Meaning.{Meaning, Limits}
use Rattle.plan.specs.Copied.{graph_of}
use Rattle.plan.specs.declared.gateway.GatewayTable.{GatewayTable}

abbrev pub meaning_of : GatewayTable → Meaning
meaning_of t = record { graph = graph_of t.graph; logics = vec_items t.logics }

-- the ghost fields of a table and of its graph are the limits
pub limits_of : (t : GatewayTable) → Limits (meaning_of t)
limits_of t =
    let g = t.graph in
    record {
      some_steps = g.some_steps;
      few_steps = g.few_steps;
      some_links = rw length-map g.some_links;
      few_links = rw length-map g.few_links;
      ends_below = g.ends_below;
      first_below = g.first_below;
      last_below = g.last_below;
      apart = g.apart;
      logic_each = t.each;
    }
