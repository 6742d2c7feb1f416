use Rattle.rh_model.specs.Plain.{PlainHeap}
use Rattle.rh_mutator.specs.Texts.{text_numbers}
use Rattle.rheap_c.specs.Rows.{ready_for}
use Rattle.rheap_c.proofs.KeptTexts.{text-kept, text-made_at}
use Rattle.rheap_c.proofs.Rows.{AreStoredInsisting-ready, AreStoredInsisting-stands}
use Rattle.rheap_c.proofs.laws.readings.a_text_is_read_as_it_was_stored.Goals as goal

pub returns-clause-stored : goal.returns-clause-stored
returns-clause-stored c = λ s p stands between new owner object from text bytes stored before after count status same told.
    text-kept owner object from text s p stands between new
    (c.a_text_is_read_as_it_was_put.ensures.plain p owner object from text bytes)
    stored before after count status same told

pub returns-clause-insisted : goal.returns-clause-insisted
returns-clause-insisted c = λ s p stands between new owner object from text bytes stored before after count status same told.
    returns-clause-stored c (ready_for s owner object from (text_numbers text)) p
    (AreStoredInsisting-stands s owner object from (text_numbers text) between 0 p stored stands) between new owner object from text bytes
    (AreStoredInsisting-ready s owner object from (text_numbers text) between 0 stored) before after count status same told

pub returns-clause-run : goal.returns-clause-run
returns-clause-run c = λ s p stands new calls answers made i owner object from text before store stored read bytes same stores call said zero_is next then.
    text-made_at owner object from text (λ (q : PlainHeap). c.a_text_is_read_as_it_was_put.ensures.plain q owner object from text bytes)
    store before stored read stores same zero_is i s p stands new calls answers made call next said then
