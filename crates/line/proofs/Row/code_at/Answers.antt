-- `Row::code_at`: the code ends the line, or its columns are made of the word that was looked up.
use mathlib.Core.Path.{sym, ◌∙◌}
use Rattle.line.proofs.Turns.{word_fits, code_ended, code_shown}
use Rattle.line.proofs.Row.code_at.Goals as goal

pub returns-in_default : goal.returns-in_default
returns-in_default c =
    let s = c.args.self.now in
    code_ended s.ram.now s.font.now c.args.at s.pen c.args.before (sym c.lookup.ensures.word ∙ c.in_default.is)

pub overflow_add-result : goal.overflow_add-result
overflow_add-result c =
    let s = c.args.self.now in
    word_fits s.ram.now s.font.now c.args.at s.pen c.in-Some.word (sym c.lookup.ensures.word ∙ c.in-Some.is)

pub returns : goal.returns
returns c =
    let s = c.args.self.now in
    let made = c.requires.made in
    code_shown s.ram.now s.font.now c.args.at s.pen c.in-Some.word (sym c.lookup.ensures.word ∙ c.in-Some.is) s.bytes.0 s.bytes.1 _ _
    (rw (made.0, made.1, c.from.ensures) at c.character.ensures)
