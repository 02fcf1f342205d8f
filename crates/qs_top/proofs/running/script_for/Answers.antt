use Rattle.std.proofs.Common.{◌≡◌, ℕ, List, Option, Err, subst}
use Rattle.qs_text.specs.declared.given.Shown.{Shown}
use Rattle.qs_text.specs.declared.given.Shown.TheVariants as shows
use Rattle.qs_text_script.specs.Script.{script_of}
use Rattle.qs_text_script.specs.declared.reading.ScriptFailed.TheVariants.{Fault}
use Rattle.qs_top.specs.Texts.{HasText}
use Rattle.qs_top.proofs.running.script_for.Goals as goal

as_shown : (l m : Option (List ℕ)) (s shown : Shown) (P : List ℕ → Type 0) → s ≡ shown → HasText s l m P → HasText shown l m P
as_shown l m s shown P is has = subst (λ (x : Shown). HasText x l m P) is has

pub returns-in-Output-clause-fault : goal.returns-in-Output-clause-fault
returns-in-Output-clause-fault g c = λ line fault is.
    let same : shows.Output ≡ c.args.shown = cc (c.in-Output.is) in
    as_shown (g.S.Source.left c.args.source.now) (g.S.Source.left c.script_from.new.source) shows.Output c.args.shown (λ text. script_of c.args.nodes text ≡ Err (Fault line fault)) same (c.script_from.ensures.fault line fault is)

pub returns-in-Journal-clause-fault : goal.returns-in-Journal-clause-fault
returns-in-Journal-clause-fault g c = λ line fault is.
    let same : shows.Journal ≡ c.args.shown = cc (c.in-Journal.is) in
    as_shown (g.S.Source.left c.args.source.now) (g.S.Source.left c.script_from-in-Journal.new.source) shows.Journal c.args.shown (λ text. script_of c.args.nodes text ≡ Err (Fault line fault)) same (c.script_from-in-Journal.ensures.fault line fault is)
