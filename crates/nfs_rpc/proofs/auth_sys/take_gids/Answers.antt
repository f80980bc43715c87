use Rattle.std.proofs.Common.{arith}
use Rattle.nfs_rpc.proofs.Gids.{leads_on, leads_end, leads_fault}
use Rattle.nfs_rpc.proofs.auth_sys.take_gids.Goals as goal

pub loop-preserved : goal.loop-preserved
loop-preserved c = record {
  len = omega (arith, c.push.ensures.len, c.loop.invariant.len);
  leads = leads_on c.args.count c.loop.counter _ c.args.input.now c.loop.gids.items _ c.loop.input _ c.loop.invariant.leads c.in-Ok.ensures.exact c.push.ensures.items;
}

pub returns-in-Err : goal.returns-in-Err
returns-in-Err c = leads_fault c.args.count c.loop.counter c.args.input.now c.loop.gids.items c.loop.input c.in-Err.fault c.loop.invariant.leads c.loop-test.true c.in-Err.ensures.exact.0

pub returns : goal.returns
returns c = leads_end c.args.count c.loop.counter c.args.input.now c.loop.gids.items c.loop.input c.loop.invariant.leads c.loop.auto.counter-end c.loop-test.false
