use Rattle.comemo_tree_tests.proofs.Drafts.{ask-draft, ask-agrees, ask-kept, ask-held, ask-told}
use Rattle.comemo_tree_tests.proofs.counted.ask.Goals as goal

pub returns-clause-draft : goal.returns-clause-draft
returns-clause-draft c =
    let e = c.in_ok-is_new.ensures in
    ask-draft c.args.key c.args.call c.args.answer c.args.run.now c.insert.new.self c.requires.draft c.requires.asked c.in_ok-is_new.is_new e.new e.pairs e.seen e.held

pub returns-clause-agrees : goal.returns-clause-agrees
returns-clause-agrees c =
    let e = c.in_ok-is_new.ensures in
    ask-agrees c.args.key c.args.call c.args.answer c.args.run.now c.insert.new.self c.requires.draft c.requires.asked c.in_ok-is_new.is_new e.new e.pairs e.seen e.held

pub returns-clause-kept : goal.returns-clause-kept
returns-clause-kept c =
    let e = c.in_ok-is_new.ensures in
    ask-kept c.args.key c.args.call c.args.answer c.args.run.now c.insert.new.self c.requires.draft c.requires.asked c.in_ok-is_new.is_new e.new e.pairs e.seen e.held

pub returns-clause-held : goal.returns-clause-held
returns-clause-held c =
    let e = c.in_ok-is_new.ensures in
    ask-held c.args.key c.args.call c.args.answer c.args.run.now c.insert.new.self c.requires.draft c.requires.asked c.in_ok-is_new.is_new e.new e.pairs e.seen e.held

pub returns-clause-told : goal.returns-clause-told
returns-clause-told c =
    let e = c.in_ok-is_new.ensures in
    ask-told c.args.key c.args.call c.args.answer c.args.run.now c.insert.new.self c.requires.draft c.requires.asked c.in_ok-is_new.is_new e.new e.pairs e.seen e.held
