use Rattle.event_list.proofs.Lines.{event_put}
use Rattle.event_list.proofs.put_event.Goals as goal

pub returns : goal.returns
returns c = event_put c.args.event c.args.at c.args.list.now _ c.requires c.copy_from_slice.ensures.after
