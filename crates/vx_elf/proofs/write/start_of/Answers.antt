-- There are two headers at most, and they stand before byte 4,096.
use Rattle.std.proofs.Common.{◌≡◌, ℕ, ◌++◌, List, length, ap, ◌∙◌, arith}
use Rattle.std.specs.List.{flat_map}
use Rattle.vx_elf.specs.Writing.{file_header, program_header, headers_of}
use Rattle.vx_elf.specs.declared.header.ProgramHeader.{ProgramHeader}
use Rattle.vx_elf.proofs.Placed.{few_headers, length-head}
use Rattle.vx_elf.proofs.write.start_of.Goals as goal

pub overflow_cast-len : goal.overflow_cast-len
overflow_cast-len c =
    omega (arith, c.len.ensures, c.in_ok-headers.headers.ok.0, ap length c.in_ok-headers.ensures, few_headers c.args.program.now)

pub put_at-requires : goal.put_at-requires
put_at-requires c =
    let program = c.args.program.now in
    let count : c.len.result ≡ length (headers_of program) = omega (arith, c.len.ensures, c.in_ok-headers.headers.ok.0, ap length c.in_ok-headers.ensures) in
    let head : c.put_program_headers.new.out.items ≡ file_header program.entry (length (headers_of program)) ++ flat_map program_header (headers_of program) =
    c.in_ok-put_program_headers.ensures
    ∙ ap (λ (bytes : List ℕ). bytes ++ flat_map program_header c.deref.result.now) (c.in_ok-put_file_header.ensures ∙ ap (λ (bytes : List ℕ). bytes ++ file_header program.entry c.len.result) c.new-out.ensures.items)
    ∙ ap (λ (n : ℕ). file_header program.entry n ++ flat_map program_header c.deref.result.now) count
    ∙ ap (λ (headers : List ProgramHeader). file_header program.entry (length (headers_of program)) ++ flat_map program_header headers) (c.deref.ensures.value ∙ c.in_ok-headers.ensures) in
    omega (arith, c.put_program_headers.new.out.ok.0, ap length head, length-head program)
