use Rattle.net_model.proofs.sending_port.SendingPort.first_by_handle.Goals as goal

pub streams-entry-items-requires : goal.streams-entry-items-requires
streams-entry-items-requires g c κs h = h

pub find_frames-requires : goal.find_frames-requires
find_frames-requires g c = c.requires

pub find_frames-found-requires : goal.find_frames-found-requires
find_frames-found-requires g c = c.requires

pub bounds-entry-items-entry-index : goal.bounds-entry-items-entry-index
bounds-entry-items-entry-index g c = c.loop-entry-test.true
