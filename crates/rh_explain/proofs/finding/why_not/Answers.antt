use Rattle.rh_explain.proofs.finding.why_not.Goals as goal

pub returns-in-Number : goal.returns-in-Number
returns-in-Number c = rw c.in-Number.is c.why_no_number.ensures

pub returns-in-Root : goal.returns-in-Root
returns-in-Root c = rw c.in-Root.is c.why_no_root.ensures

pub returns-in-Operand : goal.returns-in-Operand
returns-in-Operand c = rw c.in-Operand.is c.why_no_operand.ensures

pub returns-in-Dealt : goal.returns-in-Dealt
returns-in-Dealt c = rw c.in-Dealt.is c.why_not_dealt.ensures

pub returns-in-Tray : goal.returns-in-Tray
returns-in-Tray c = rw c.in-Tray.is c.why_no_tray.ensures
