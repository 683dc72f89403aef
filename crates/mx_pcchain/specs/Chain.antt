-- The chain of saved fetches, and the words of which it is made.
use Rattle.std.specs.Prelude.{ℕ, ◌+◌, ◌%◌, ◌^◌, cond, leb}
use Rattle.mx_isa.specs.declared.Special.{Special}
use Rattle.mx_isa.specs.declared.Special.TheVariants.{Md, Pc1, Pc2, Pc3}
use Rattle.mx_pcchain.specs.declared.chain.Chain.{Chain}
use Rattle.mx_pcchain.specs.Fetch.{Fetch}

-- the word of a fetch: the address in bits 0 to 30, the squashed flag in bit 31
abbrev pub entry_of : Fetch → ℕ
entry_of f = cond f.squashed (f.address + 2 ^ 31) f.address

-- the fetch that a word stands for
abbrev pub fetch_from : ℕ → Fetch
fetch_from e = record { address = e % 2 ^ 31; squashed = leb (2 ^ 31) e }

-- the chain before anything is saved
abbrev pub empty_chain : Chain
empty_chain = record { pc1 = 0; pc2 = 0; pc3 = 0 }

-- the chain that an interrupt writes, of the fetches in ALU, RF and IF
abbrev pub chain_of : Fetch → Fetch → Fetch → Chain
chain_of alu rf fetch = record { pc1 = entry_of alu; pc2 = entry_of rf; pc3 = entry_of fetch }

-- the chain after a pop of pc1: the others move up, and pc3 stays
abbrev pub pop : Chain → Chain
pop c = record { pc1 = c.pc2; pc2 = c.pc3; pc3 = c.pc3 }

-- the word of this name; md is not of the chain
abbrev pub special : Chain → Special → ℕ
special c Md = 0
special c Pc1 = c.pc1
special c Pc2 = c.pc2
special c Pc3 = c.pc3

-- the chain with this word written; md is not of the chain
abbrev pub with_special : Chain → Special → ℕ → Chain
with_special c Md v = c
with_special c Pc1 v = record c { pc1 = v }
with_special c Pc2 v = record c { pc2 = v }
with_special c Pc3 v = record c { pc3 = v }
