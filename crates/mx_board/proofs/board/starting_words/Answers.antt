use Rattle.std.proofs.Common.{arith}
use Rattle.mx_isa.specs.declared.board.TheConstants.{DATA_BASE, DATA_END}
use Rattle.mx_board.proofs.StartingWords.{words_made}
use Rattle.mx_board.proofs.board.starting_words.Goals as goal

pub returns-clause-words : goal.returns-clause-words
returns-clause-words c =
    λ i a. words_made DATA_BASE DATA_END c.args.user_data.now c.new-words.result.items c.resize.new.self.items c.extend_from_slice.new.self.items
    c.resize-2.new.self.items _ _ c.new-words.ensures.items c.new-words.ensures.len c.in_ok-resize.ensures.items
    c.in_ok-extend_from_slice.ensures.items (omega (arith, c.in_ok-resize.ensures.len, c.in_ok-extend_from_slice.ensures.len))
    c.in_ok-resize-2.ensures.items (omega arith) a i

pub returns-clause-console : goal.returns-clause-console
returns-clause-console c =
    words_made DATA_BASE DATA_END c.args.user_data.now c.new-words.result.items c.resize.new.self.items c.extend_from_slice.new.self.items
    c.resize-2.new.self.items _ _ c.new-words.ensures.items c.new-words.ensures.len c.in_ok-resize.ensures.items
    c.in_ok-extend_from_slice.ensures.items (omega (arith, c.in_ok-resize.ensures.len, c.in_ok-extend_from_slice.ensures.len))
    c.in_ok-resize-2.ensures.items (omega arith) 255
