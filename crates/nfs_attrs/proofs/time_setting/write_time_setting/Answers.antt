use Rattle.nfs_xdr.proofs.Writing.{appends_then}
use Rattle.nfs_attrs.proofs.time_setting.write_time_setting.Goals as goal

pub returns-in-Leave-clause-encoded : goal.returns-in-Leave-clause-encoded
returns-in-Leave-clause-encoded c = rw c.in-Leave.is c.u32.ensures.encoded

pub returns-in-ServerTime-clause-encoded : goal.returns-in-ServerTime-clause-encoded
returns-in-ServerTime-clause-encoded c = rw c.in-ServerTime.is c.u32-in-ServerTime.ensures.encoded

pub returns-in-ClientTime-clause-text : goal.returns-in-ClientTime-clause-text
returns-in-ClientTime-clause-text c = rw c.in-ClientTime.is (appends_then _ _ _ _ _ c.u32-in-ClientTime.ensures.text c.write_moment.ensures.text)
