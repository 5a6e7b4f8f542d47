use Rattle.std.proofs.Common.{Ok, Err, ap, ◌∙◌}
use Rattle.std.proofs.lemmas.Result.{err_from_is_err_and}
use Rattle.plan.specs.Table.{meaning_of, limits_of}
use Rattle.plan.proofs.Determined.{written_is_read, refused}
use Rattle.plan.proofs.gateway.GatewayTable.read.Goals as goal

pub returns-in_err-table : goal.returns-in_err-table
returns-in_err-table c =
    let p = err_from_is_err_and c.from_residual.result c.from_residual.ensures.1 in
    let w = refused c.args.text.now (meaning_of c.args.self.now) c.from_residual.result c.in_err-table.field-0.0 (p.1 ∙ ap Err p.2) c.in_err-table.ensures in
    record { reads = w.0; gives_back = w.1 }

pub returns-clause-gives_back : goal.returns-clause-gives_back
returns-clause-gives_back c =
    let table = c.in_ok-table.table in
    let told = c.in_ok-table.ensures in
    written_is_read c.args.text.now (meaning_of c.args.self.now) (meaning_of table) (Ok tt) (told.0, limits_of table, told.1)
