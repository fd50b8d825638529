-- `outputs::records::put_make_with` meets its contract: its fields in a row are the record (a law of `Recs`).
-- Assumes nothing.
use Rattle.outputs.proofs.Recs.{make-with-put}
use Rattle.outputs.proofs.records.put_make_with.Goals as goal

pub returns : goal.returns
returns c =
    make-with-put _ _ _ _ _ c.names_in-n.ensures.0 c.names_in-n.ensures.1 c.put_head-a.ensures c.put64-b.ensures c.put_qc-c.ensures c.put8-d.ensures c.put_tc_body.ensures
