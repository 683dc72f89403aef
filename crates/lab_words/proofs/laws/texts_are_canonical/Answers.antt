use Rattle.lab_words.proofs.Again.{plain_text, branch_text, call_text, call_register_text}
use Rattle.lab_words.proofs.laws.texts_are_canonical.Goals as goal

pub returns-clause-plain : goal.returns-clause-plain
returns-clause-plain c = λ names labels aim address i. plain_text names labels aim address i

pub returns-clause-branch : goal.returns-clause-branch
returns-clause-branch c = branch_text

pub returns-clause-call : goal.returns-clause-call
returns-clause-call c = call_text

pub returns-clause-call_register : goal.returns-clause-call_register
returns-clause-call_register c = call_register_text
