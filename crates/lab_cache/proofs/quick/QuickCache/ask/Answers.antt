use Rattle.std.proofs.Common.{◌≡◌, ◌++◌, true, get_or, bit_or, subst, sym, ◌∙◌, ap}
use Rattle.mx_icache.specs.LineSets.{is_set}
use Rattle.lab_cache.specs.Sets.{CacheHolds}
use Rattle.lab_cache.proofs.Known.{IsAsked, asked_visits, row_own, gone_row, other_row}
use Rattle.lab_cache.proofs.quick.QuickCache.ask.Goals as goal
use Rattle.lab_cache.proofs.quick.QuickCache.ask.Goals.{After-note}

cache_is : (c : After-note) → c.note.new.self.cache ≡ c.fetch-gone.new.self
cache_is c = c.note.ensures.cache ∙ c.forget.ensures.cache

asked : (c : After-note) → IsAsked c.args.self.now c.note.new.self c.args.line c.args.groups c.fetch-gone.result
asked c = record {
  geometry = ap (λ k. k.geometry) (cache_is c) ∙ c.fetch-gone.ensures.geometry;
  next = λ past v is visit h. subst (λ k. CacheHolds k (v ++ past)) (sym (cache_is c)) (c.fetch-gone.ensures.next past v is visit h);
  out = λ past is h. c.fetch-gone.ensures.gone past is h;
  own = λ j e. subst (λ n. is_set (bit_or n c.args.groups) j ≡ true) c.known-known.ensures
      (row_own c.forget.new.self.known.items c.args.line (bit_or c.known-known.result c.args.groups) j
      (ap (λ xs. is_set (get_or xs c.args.line 0) j) (sym c.note.ensures.known) ∙ e));
  none = λ m ne e. ap (λ xs. get_or xs m 0) c.note.ensures.known
      ∙ gone_row c.args.self.now.known.items c.forget.new.self.known.items c.fetch-gone.result c.args.line (bit_or c.known-known.result c.args.groups) m
      c.forget.ensures.gone ne e;
  others = λ m ne e. ap (λ xs. get_or xs m 0) c.note.ensures.known
      ∙ other_row c.args.self.now.known.items c.forget.new.self.known.items c.fetch-gone.result c.args.line (bit_or c.known-known.result c.args.groups) m
      c.forget.ensures.gone c.forget.ensures.none ne e;
}

pub returns : goal.returns
returns c = asked_visits c.args.self.now c.note.new.self c.args.line c.args.groups c.fetch-gone.result (asked c)
