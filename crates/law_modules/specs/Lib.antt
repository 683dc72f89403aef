pub mod JoinedTexts
