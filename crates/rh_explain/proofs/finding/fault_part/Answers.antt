use Rattle.std.proofs.Common.{Ok, Err, sym, ◌∙◌}
use Rattle.std.proofs.lemmas.Bool.Decides.{not_from_Decides}
use Rattle.rh_text.specs.Parts.{is_formed}
use Rattle.rh_text.specs.lemmas.Formed.{is_formed-Decides}
use Rattle.rh_explain.specs.Explain.{class, part_faults_of}
use Rattle.rh_explain.proofs.Lines.{told, limit_judged, ill_judged, formed_judged, no_limit}
use Rattle.rh_explain.proofs.finding.fault_part.Goals as goal

pub returns-in-Some-clause-class : goal.returns-in-Some-clause-class
returns-in-Some-clause-class c =
    let n = c.args.number in
    told n (record { bytes = c.args.bytes.now; ended = c.args.ended }) (Err (class c.in-Some.part.why)) (limit_judged (part_faults_of n) n c.args.bytes.now c.args.ended (class c.in-Some.part.why) c.in-Some.ensures.found)

pub ill_formed-requires : goal.ill_formed-requires
ill_formed-requires c = not_from_Decides (is_formed c.args.bytes.now) (is_formed-Decides c.args.bytes.now) (sym c.is_formed.ensures ∙ c.if-not-is_formed.true)

pub returns-then-not-is_formed-clause-class : goal.returns-then-not-is_formed-clause-class
returns-then-not-is_formed-clause-class c =
    let n = c.args.number in
    let bytes = c.args.bytes.now in
    let limits = c.in_default.ensures.found in
    let ill = not_from_Decides (is_formed bytes) (is_formed-Decides bytes) (sym c.is_formed.ensures ∙ c.if-not-is_formed.true) in
    told n (record { bytes = bytes; ended = c.args.ended }) (Err (class c.ill_formed.result.why))
    (rw c.ill_formed.ensures.class (ill_judged (part_faults_of n) n bytes c.args.ended limits.0 limits.1 ill))

pub returns-in_err-misfit-clause-class : goal.returns-in_err-misfit-clause-class
returns-in_err-misfit-clause-class c =
    let n = c.args.number in
    let bytes = c.args.bytes.now in
    let limits = c.in_default.ensures.found in
    let formed = (is_formed-Decides bytes).0 (sym c.is_formed.ensures ∙ c.if-not-is_formed.false) in
    rw c.from_residual.ensures
    (told n (record { bytes = bytes; ended = c.args.ended }) (Ok (tt {0})) (formed_judged (part_faults_of n) n bytes c.args.ended (Ok (tt {0})) limits.0 limits.1 formed c.in_err-misfit.ensures.judged))

pub returns-clause-class : goal.returns-clause-class
returns-clause-class c =
    let n = c.args.number in
    let bytes = c.args.bytes.now in
    let limits = c.in_default.ensures.found in
    let formed = (is_formed-Decides bytes).0 (sym c.is_formed.ensures ∙ c.if-not-is_formed.false) in
    let read = Err (class c.in_ok-misfit.misfit.why) in
    told n (record { bytes = bytes; ended = c.args.ended }) read (formed_judged (part_faults_of n) n bytes c.args.ended read limits.0 limits.1 formed c.in_ok-misfit.ensures.judged)

pub returns-in-Some-clause-ill : goal.returns-in-Some-clause-ill
returns-in-Some-clause-ill c = λ short e ill. absurd (no_limit c.args.number c.args.bytes.now c.args.ended (class c.in-Some.part.why) c.in-Some.ensures.found short e)

pub returns-in-Some-clause-place : goal.returns-in-Some-clause-place
returns-in-Some-clause-place c = λ short e formed. absurd (no_limit c.args.number c.args.bytes.now c.args.ended (class c.in-Some.part.why) c.in-Some.ensures.found short e)

pub returns-then-not-is_formed-clause-ill : goal.returns-then-not-is_formed-clause-ill
returns-then-not-is_formed-clause-ill c = λ short e ill. c.ill_formed.ensures.place

pub returns-then-not-is_formed-clause-place : goal.returns-then-not-is_formed-clause-place
returns-then-not-is_formed-clause-place c =
    let bytes = c.args.bytes.now in
    let ill = not_from_Decides (is_formed bytes) (is_formed-Decides bytes) (sym c.is_formed.ensures ∙ c.if-not-is_formed.true) in
    λ short e formed. absurd (ill formed)

pub returns-in_err-misfit-clause-within : goal.returns-in_err-misfit-clause-within
returns-in_err-misfit-clause-within c = rw c.from_residual.ensures tt

pub returns-in_err-misfit-clause-ill : goal.returns-in_err-misfit-clause-ill
returns-in_err-misfit-clause-ill c = rw c.from_residual.ensures tt

pub returns-in_err-misfit-clause-place : goal.returns-in_err-misfit-clause-place
returns-in_err-misfit-clause-place c = rw c.from_residual.ensures tt

pub returns-clause-ill : goal.returns-clause-ill
returns-clause-ill c =
    let bytes = c.args.bytes.now in
    let formed = (is_formed-Decides bytes).0 (sym c.is_formed.ensures ∙ c.if-not-is_formed.false) in
    λ short e ill. absurd (ill formed)

pub returns-clause-place : goal.returns-clause-place
returns-clause-place c = λ short e formed. (c.in_ok-misfit.misfit.index, c.columns_of-begins.ensures.part, c.in_ok-misfit.ensures.place)
