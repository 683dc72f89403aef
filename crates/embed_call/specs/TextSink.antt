-- What contracts see of the sink of a call.
use Rattle.std.specs.Prelude.{ℕ, List}
use Rattle.embed_call.specs.declared.text_sink.TextSink.{TextSink}

-- the bytes that it took
abbrev pub written_in : TextSink → List ℕ
written_in sink = sink.bytes.items

-- how many faults there were
abbrev pub faults_of : TextSink → ℕ
faults_of sink = sink.faults
