use Rattle.std.proofs.Common.{refl}
use Rattle.rheap_c.proofs.laws.runs.each_call_stands_in_lists.Goals as goal

pub returns : goal.returns
returns c = record {
  does = λ old new owner command status done. (done, refl);
  loads = λ old new owner dst src field status value done. (done, refl);
  compares = λ old new owner a b status same done. (done, refl);
  insists = λ old new owner command status done. (done, refl);
  collects = λ old new status done. (done, refl);
  increments = λ old new status done. (done, refl);
  tells = λ old new status done. (done, refl);
  peeks = λ old new owner src field status value done. (done, refl);
  field = λ old new root field status value done. (done, refl);
  root = λ old new root status value done. (done, refl);
  counts = λ old new root status count done. (done, refl);
  stores_ints = λ old new owner object from numbers status done. (done, refl);
  insists_on_ints = λ old new owner object from numbers status done. (done, refl);
  loads_ints = λ old new owner object from before after count status done. (done, refl);
  loads_text = λ old new owner object from before after count status done. (done, refl);
}
