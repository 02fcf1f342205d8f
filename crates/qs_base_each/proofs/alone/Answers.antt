use Rattle.std.proofs.Common.{◌≡◌, ◌∷◌, rules}
use Rattle.qs_base_each.proofs.Zips.{zip_alone_ok, zip_alone_of}
use Rattle.qs_base_each.proofs.Calling.{went_well, went}
use Rattle.qs_base_each.proofs.alone.Goals as goal

pub returns-in-Some-clause-whole : goal.returns-in-Some-clause-whole
returns-in-Some-clause-whole g c =
    let split : c.args.all.now ≡ c.in-Some.one.now ∷ c.in-Some._none.now = search rules in
    zip_alone_ok _ c.args.all.now c.in-Some.one.now c.at_one.new.one c.in-Some._none.now c.at_one.result split c.requires.few
    (went_well g.F.Fn c.args.f.now c.at_one.result c.in-Some.one.now c.at_one.new.one c.at_one.ensures)

pub returns-in-Some-clause-each : goal.returns-in-Some-clause-each
returns-in-Some-clause-each g c =
    let split : c.args.all.now ≡ c.in-Some.one.now ∷ c.in-Some._none.now = search rules in
    zip_alone_of _ c.args.all.now c.in-Some.one.now c.at_one.new.one c.in-Some._none.now split c.requires.few
    (went g.F.Fn c.args.f.now c.at_one.result c.in-Some.one.now c.at_one.new.one c.at_one.ensures)
