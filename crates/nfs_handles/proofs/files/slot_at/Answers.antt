use Rattle.nfs_handles.proofs.Slotted.{leads_back}
use Rattle.nfs_handles.proofs.files.slot_at.Goals as goal

pub returns-then-stored-number : goal.returns-then-stored-number
returns-then-stored-number g c = leads_back c.args.slots.now c.args.places.now.entries c.requires c.args.number.1.0 c.args.number.0 c.in-Some.stored.now c.in-Some.ensures c.if-stored-number.true
