use Rattle.std.proofs.Common.{ap, length, arith}
use Rattle.table.proofs.Views.{filed_few}
use Rattle.table.proofs.source.TableSource.nodes.Goals as goal

pub overflow_cast-result : goal.overflow_cast-result
overflow_cast-result c = omega (arith, ap length c.filed.ensures, filed_few c.args.self.now c.args.k)
